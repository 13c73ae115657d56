pub mod CellByCell
