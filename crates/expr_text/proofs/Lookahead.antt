-- readings that look at no more than the one token after what they take, and what follows of them
pub mod Steady
-- rows of operators are such readings
pub mod SteadyRows
-- so are factors, operands of functions and whole expressions
pub mod SteadyFactors
-- with more brackets and signs allowed, a reading gives the same unless it was too deep
pub mod Depths
-- a refusal stands at the first token with which no expression goes on
pub mod Refusals
-- there is at most one such token
pub mod FirstWrong
