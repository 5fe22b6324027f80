pub mod SeatRead
