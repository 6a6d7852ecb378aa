pub mod CheckWords
pub mod GenerateWords
pub mod RulesFile
pub mod FaultMessages
pub mod PrintedOutput
pub mod Judging
pub mod Reports
pub mod BatchCommands
