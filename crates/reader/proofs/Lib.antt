-- What a reader's promise means in the user's words: Demands. How the code keeps it: Promises.
pub mod Promises
pub mod Demands
