pub mod Painting
pub mod Sole
pub mod Alike
pub mod Shapes
