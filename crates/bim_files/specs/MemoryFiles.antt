-- Files in memory.
use Rattle.std.specs.Prelude.{◌≡◌, ℕ, ◌<◌, List, [], length, map, take, All, Bool, true, false}
use Rattle.std.specs.Prelude.{slice_index_or, Option, Some, None}
use Rattle.std.specs.List.{sum_by}
use Rattle.std.specs.Str.{bytes_eq}
use Rattle.bim_io.specs.MemoryStreams.{SourceState, SureSourceState, left_at, ended_empty}
use Rattle.bim_io.specs.StreamViews.{SourceSeen, EndsEmpty}
use Rattle.bim_files.specs.declared.loans.MemFile.{MemFile}
use Rattle.bim_files.specs.declared.sure_files.SureFile.{SureFile}
use Rattle.bim_files.specs.Files.{FileSeen, FilesTold, FilesSeen, once}

-- ---- what files tell

-- what contracts see of a file in memory
abbrev pub file_seen : MemFile → FileSeen
file_seen file = record { name = file.name; bytes = file.contents }

-- how often a name is lent, where these are the names that are lent
abbrev pub lent_times : List (List ℕ) → List ℕ → ℕ
lent_times lent name = sum_by (λ other. once other name) lent

-- what files in memory tell, of which these names are lent
abbrev pub told_of : List MemFile → List (List ℕ) → FilesTold
told_of files lent = record { files = map file_seen files; lent = lent_times lent }

-- a file has this name
abbrev pub has_name : List ℕ → MemFile → Bool
has_name name file = bytes_eq file.name name

-- the first file of that name stands at this place
pub record IsFirst (files : List MemFile) (name : List ℕ) (place : ℕ) : Type 0 where
  pub within : place < length files
  pub before : All (λ (file : MemFile). has_name name file ≡ false) (take place files)
  pub here : (d : MemFile) → has_name name (slice_index_or files place d) ≡ true

-- the name stands at this place
pub record StandsAt (names : List (List ℕ)) (name : List ℕ) (place : ℕ) : Type 0 where
  pub within : place < length names
  pub here : (d : List ℕ) → once (slice_index_or names place d) name ≡ 1

-- ---- files that fail

-- a source that is lent: its name, the source in memory, and how often it has failed
pub record LentState : Type 0 where
  pub name : List ℕ
  pub source : SourceState
  pub faults : ℕ

-- what contracts see of a source that was lent
abbrev pub lent_seen : LentState → SourceSeen
lent_seen s = record {
  left = Some (left_at s.source.ended s.source.left);
  given = Some s.source.given;
  most = Some s.source.most;
  ended = s.source.ended;
  faults = s.faults;
}

-- a source of a file of which nothing was read, where one read moves at most so many bytes
abbrev pub fresh_source : MemFile → ℕ → LentState
fresh_source file most = record {
  name = file.name;
  source = record {
    left = file.contents;
    given = [];
    ended = false;
    most = most;
    fails = file.read_fails;
    calls = 0;
    faults = 0;
  };
  faults = 0;
}

-- what contracts see of files in memory: the files, the names that are lent, the most that one read moves,
-- the openings that fail, how many there were, and how often they failed
pub record MemFilesState : Type 0 where
  pub files : List MemFile
  pub lent : List (List ℕ)
  pub most : ℕ
  pub fails : List ℕ
  pub calls : ℕ
  pub faults : ℕ

-- what contracts see of files in memory
abbrev pub seen_of : MemFilesState → FilesSeen
seen_of f = record { told = Some (told_of f.files f.lent); faults = f.faults }

-- ---- files that never fail

-- a source that is lent: its name and the source in memory, where there was memory for them, and whether one
-- without them has answered its end
pub record SureLentState : Type 0 where
  pub name : Option (List ℕ)
  pub source : Option SureSourceState
  pub ended : Bool

-- One without a source in memory gives nothing, and tells nothing.
abbrev pub sure_source_seen : Option SureSourceState → Bool → SourceSeen
sure_source_seen None ended =
    record { left = None; given = None; most = None; ended = ended; faults = 0 }
sure_source_seen (Some s) ended = record {
  left = Some (left_at s.ended s.left);
  given = Some s.given;
  most = Some s.most;
  ended = s.ended;
  faults = 0;
}

-- what contracts see of a source that never fails
abbrev pub sure_lent_seen : SureLentState → SourceSeen
sure_lent_seen s = sure_source_seen s.source s.ended

-- a source of these contents that is lent under a name, of which nothing was read
abbrev pub sure_fresh : List ℕ → List ℕ → ℕ → SureLentState
sure_fresh name contents most = record {
  name = Some name;
  source = Some (record { left = contents; given = []; ended = false; most = most });
  ended = false;
}

-- one that says what is left, and has answered its end, has nothing left
pub sure_ends_empty : (source : Option SureSourceState) (ended : Bool)
    → EndsEmpty (sure_source_seen source ended)
sure_ends_empty None ended = λ is. tt
sure_ends_empty (Some s) ended = ended_empty s.ended s.left

-- a file whose reads never fail
abbrev pub held : SureFile → MemFile
held file = record { name = file.name; contents = file.contents; read_fails = [] }

-- what contracts see of them: the files, the names that are lent, whether they still tell, and the most that
-- one read moves
pub record SureFilesState : Type 0 where
  pub files : List MemFile
  pub lent : List (List ℕ)
  pub tells : Bool
  pub most : ℕ

-- what they tell, where they still do
abbrev pub told_where : Bool → List MemFile → List (List ℕ) → Option FilesTold
told_where true files lent = Some (told_of files lent)
told_where false files lent = None

-- what contracts see of files in memory that never fail
abbrev pub sure_seen_of : SureFilesState → FilesSeen
sure_seen_of f = record { told = told_where f.tells f.files f.lent; faults = 0 }
