-- Published sets by project and version.
use Rattle.std.specs.Prelude.{ℕ, zero, suc, ◌+◌, ◌==◌, ◌&&◌, nat_lt, Bool, List, find, slice_index_or, Option, option_map}
use Rattle.bim_model.specs.Snapshots.{Version}
use Rattle.clash_publish.specs.declared.entry.Entry.{Entry}
use Rattle.clash_publish.specs.declared.horizon.TheConstants.{LIVE_VERSIONS}

-- the entry is of that version of that project
abbrev pub is_of : ℕ → ℕ → Entry → Bool
is_of project version entry = entry.project == project && entry.version == version

-- the set of a version of a project, if it stands there
abbrev pub set_of : List Entry → ℕ → ℕ → Option Version
set_of entries project version =
    option_map (λ (entry : Entry). entry.set) (find (is_of project version) entries)

-- the newest version of a project from 1 on, 0 of one that isn't there
abbrev pub newest_of : List ℕ → ℕ → ℕ
newest_of newest zero = 0
newest_of newest (suc place) = slice_index_or newest place 0

-- the version is one of the newest sixteen of its project
abbrev pub is_live : List ℕ → ℕ → ℕ → Bool
is_live newest project version = nat_lt (newest_of newest project) (version + LIVE_VERSIONS)
