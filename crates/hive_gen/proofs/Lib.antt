-- the first draw, and the further ones
mod Drawing
-- one line after another
mod Lines
