pub mod Items
pub mod Utf8
pub mod Checks
pub mod Ranges
pub mod Trees
pub mod Shapes
pub mod WithoutCut
