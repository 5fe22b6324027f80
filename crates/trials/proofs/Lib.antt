-- Each statement of promises/specs is put to use on runs, boards and desks that are written out, so that none of them is
-- true for an empty reason. A law takes a statement and draws a plain fact from it; the last lines of a file hand it the
-- statement as proved.
pub mod Runs
pub mod Shown
pub mod Waits
pub mod RanInto
pub mod Dropped
pub mod Replaced
pub mod Stands
pub mod Desks
pub mod AnyDesk
pub mod Sides
pub mod Throughout
pub mod Turning
pub mod NoEarlier
pub mod Numbers
pub mod Refused
pub mod Places
pub mod Rules
pub mod GoingBack
pub mod Misfits
pub mod FaultyCatalogues
pub mod Faults
pub mod Openings
pub mod Words
pub mod Lent
