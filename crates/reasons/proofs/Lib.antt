-- Where a counting is stopped (Stopping), also when it is stopped within a part of its events (Parts), and how that finds the shape with a count (Offset), which stands there in the list of shapes
-- (Numbered); when a shape is told, and when not (Told); and whose net transformation the shapes have that these calls draw (Owned).
pub mod Stopping
pub mod Parts
pub mod Owned
pub mod Offset
pub mod Numbered
pub mod Told
pub mod Matrix
pub mod Explained
pub mod Answered
