-- the parts of what was read become the nodes of its tree
pub mod Assembling
-- what the first phases give decides the whole
pub mod Phases
