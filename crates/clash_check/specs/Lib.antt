pub mod VersionChecks
