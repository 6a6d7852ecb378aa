pub mod EntryCounts
