-- Laws of the tests before the walk.
pub mod SettingsLaws
