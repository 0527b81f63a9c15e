-- Contents: what two parts share.
pub mod Sharing
