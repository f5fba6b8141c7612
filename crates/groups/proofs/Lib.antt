-- Laws about the passes over a group.
pub mod Fronts
pub mod StepLaws
pub mod SeekLaws
pub mod Passing
pub mod ProjectionLaws
pub mod BoundLaws
pub mod FilterLaws
pub mod GroupLaws
