-- What is computed of the drift figure by its definitions: runs that meet it, and single steps.
pub mod Runs
pub mod Steps
