-- Laws of the build: its plan and its stages, and that what these leave is the ground of the walk.
pub mod BuildPlan
pub mod BuildStages
pub mod BuildLists
pub mod BuildGround
