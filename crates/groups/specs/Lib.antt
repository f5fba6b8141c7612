-- The words of a group's body, item by item, and what the passes over a group promise.
pub mod Items
pub mod Passes
