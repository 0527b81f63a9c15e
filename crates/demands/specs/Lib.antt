-- Contents: what the demands are stated in, beside the operations' own definitions: a call that is refused; what a join finds, and what
-- its allowance decides; a call of the exported join; and a round trip in calls.
pub mod Refusing
pub mod Finding
pub mod Numbered
pub mod Trips
