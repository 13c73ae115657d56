-- places of lists
pub mod Places
pub mod Counting
-- one event: its claims, and what an entry leaves true of it
pub mod OneEvent
-- a step: what it found, and what it leaves true of all events
pub mod Steps
pub mod Lending
pub mod States
-- longer journals, and more records
pub mod LongerJournals
-- each claim by its ticket
pub mod OwnEntries
-- each record once
pub mod OncePlaces
pub mod CompleteRuns
-- the last word
pub mod LastEntry
-- each algorithm of an event once
pub mod Booked
-- what a status tells
pub mod Ends
pub mod Waiting
pub mod Undecided
pub mod OneWay
pub mod Decided
-- results in which a cut node cut something off
pub mod LiveParts
pub mod LiveDecisions
pub mod CutOff
