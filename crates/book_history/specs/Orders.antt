-- Work as the book gives it out.
use Rattle.std.specs.Prelude.{ℕ}
use Rattle.bim_model.specs.Snapshots.{Version}
use Rattle.bucket_grid.specs.declared.cell.Cell.{Cell}
use Rattle.bucket_check.specs.declared.bucket_work.BucketWork.{BucketWork}

-- a bucket to be checked: a cell of a version of a project, and what the version holds
pub record OrderValue : Type 0 where
  pub project : ℕ
  pub version : ℕ
  pub cell : Cell
  pub content : Version

-- what is told of a work: of its grid the version alone
abbrev pub order_of : BucketWork → OrderValue
order_of work =
    record { project = work.project; version = work.version; cell = work.cell; content = work.grid.version }
