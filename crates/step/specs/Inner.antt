pub mod StepContracts
