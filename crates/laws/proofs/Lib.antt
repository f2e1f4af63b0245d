-- Laws about what a text means, a folder for each thing they speak of, and the three demands over it.
pub mod Lists
pub mod Commands
pub mod Story
pub mod FlatFile
pub mod Rules
pub mod Demands
