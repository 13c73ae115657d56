-- products in their places
mod Laying
mod Boards
-- an event in its slot, and what stays tied where it goes on
mod Found
mod Ties
-- the steps of an event: a claim, which comes back or is booked
mod Claims
mod Returns
mod Bookings
-- slots that begin, and events that come and go
mod Beginnings
mod Admissions
mod Retirements
-- what the seats tell
mod Readers
mod Counts
mod Oldest
mod Comparing
mod Holdings
