-- Contents: what the search asks of what it probes.
pub mod Searching
