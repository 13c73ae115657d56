-- Lists first: sums over the passes, prefixes, positions, and what holds of each pass after one changed. Then the
-- steps, one lemma each: on the words of tickets, on the count, of two passes, and the beginning and the end.
pub mod Sums
pub mod Prefixes
pub mod Positions
pub mod Seats
pub mod TicketSteps
pub mod CountSteps
pub mod SeatSteps
pub mod Ends
