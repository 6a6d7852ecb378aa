-- What the functions answer that make the table of a file.
use Rattle.std.specs.Prelude.{◌≡◌, ◌⊎◌, ℕ, zero, suc, ◌+◌, ◌-◌, ◌*◌, ◌^◌, ◌<◌, min, Bool, false, List, [], ◌∷◌, ◌++◌, slice_index_or, sum_by, Option, Some, Result, Ok, Err}
use Rattle.p21_lexer.specs.declared.token.Token.{Token}
use Rattle.p21_values.specs.declared.fault.ReadFault.{ReadFault}
use Rattle.p21_values.specs.declared.value.Value21.{Value21}
use Rattle.p21_values.specs.declared.value.Instance.{Instance}
use Rattle.p21_values.specs.declared.instance_head.Head.{Head}
use Rattle.p21_reader.specs.declared.passing.Level.{Level}
use Rattle.p21_reader.specs.declared.passing.Reached.{Reached}
use Rattle.p21_reader.specs.declared.passing.Top.TheVariants as tops
use Rattle.p21_reader.specs.declared.table.Table.{Table}
use Rattle.p21_values.specs.Grammar.{Sign, T, Equals, Semi, Body, Value, Inside}
use Rattle.p21_lexer.specs.Cutting.{CutsFrom}
use Rattle.p21_values.specs.Lexemes.{Lexeme, Separator, Closing, lexeme_of, class_of}
use Rattle.p21_reader.specs.Machine.{next}
use Rattle.p21_reader.specs.inner.ValueNesting.{EndsRow, HasRows}
use Rattle.p21_values.specs.Printing.{print_all}
use Rattle.p21_values.specs.Counting.{size, values_of}
use Rattle.p21_reader.specs.inner.TokenReading.{Goes, Fails, FailsAfter, ReadsValue}
use Rattle.p21_reader.specs.Instances.{SpellsInstance, ReadsBody}
use Rattle.p21_reader.specs.ExchangeFiles.{ReadsSection}
use Rattle.p21_values.specs.Standing.{StandAt}
use Rattle.p21_values.specs.Tables.{Tells, Holds}

-- so many are counted beside those before; the greatest number where they are more
abbrev pub Counts : ℕ → ℕ → ℕ → Type 0
Counts before after many = after ≡ min (before + many) (2 ^ 64 - 1)

-- nothing is passed over, or what is left of a list of three numbers, where the inside of a list is wanted: three values
abbrev pub PassesRow : List ℕ → ℕ → Level → ℕ → ℕ → Reached → Type 0
PassesRow bytes at level before after reached =
    ((reached.level ≡ level) × (reached.end ≡ at) × (after ≡ before))
    ⊎ ((level.top ≡ tops.Inside) × (reached.level.top ≡ tops.Behind) × (reached.level.depth ≡ level.depth - 1)
    × EndsRow bytes at reached.end × Counts before after 3)

-- nothing is passed over, or lists of three numbers, each after a comma, and each is counted as four values
abbrev pub PassesRows : List ℕ → ℕ → ℕ → ℕ → ℕ → Type 0
PassesRows bytes at before after end =
    ((end ≡ at) × (after ≡ before))
    ⊎ ((many : ℕ) × HasRows many bytes at end × Counts before after (4 * many))

-- nothing more is passed over, or such lists, after a value of a list that may hold lists
abbrev pub PassesMore : List ℕ → ℕ → List Bool → Reached → ℕ → ℕ → Reached → Type 0
PassesMore bytes most typed old before after new =
    ((new ≡ old) × (after ≡ before))
    ⊎ ((new.level ≡ old.level) × (old.level.top ≡ tops.Behind) × (0 < old.level.depth)
    × (old.level.depth < most) × (slice_index_or typed (old.level.depth - 1) false ≡ false)
    × PassesRows bytes old.end before after new.end)

-- a value whose first token is given is passed over and counted: where it ends, or what fails
abbrev pub PassesValue : ℕ → List ℕ → Token → ℕ → ℕ → Result ℕ ReadFault → Type 0
PassesValue depth bytes t before after (Ok end) =
    (v : Value21) × ReadsValue depth bytes t end v × Counts before after (size v)
PassesValue depth bytes t before after (Err fault) = FailsAfter (Value (Some depth)) bytes t fault

-- the start of a value whose first token is given comes after those before
abbrev pub PutsStart : ℕ → List ℕ → Token → Table → Table → Result ℕ ReadFault → Type 0
PutsStart depth bytes t old new (Ok end) =
    (v : Value21) × ReadsValue depth bytes t end v × (new.starts.items ≡ old.starts.items ++ t.start ∷ [])
    × Counts old.values new.values (size v)
PutsStart depth bytes t old new (Err fault) = FailsAfter (Value (Some depth)) bytes t fault

-- the start of the next value comes after those before; the value ends there
abbrev pub PutsFirst : ℕ → List ℕ → ℕ → Table → Table → ℕ → Type 0
PutsFirst depth bytes at old new end =
    (item : Token) × CutsFrom bytes at (Ok (Some item)) × PutsStart depth bytes item old new (Ok end)

-- the start of a value behind a comma comes after those before; the value ends there
abbrev pub PutsBehind : ℕ → List ℕ → ℕ → Table → Table → ℕ → Type 0
PutsBehind depth bytes at old new end =
    (comma item : Token) × CutsFrom bytes at (Ok (Some comma)) × (lexeme_of bytes comma ≡ Separator)
    × CutsFrom bytes comma.end (Ok (Some item)) × PutsStart depth bytes item old new (Ok end)

-- so many values are put so, one after another; the last one ends there
abbrev pub PutsMany : ℕ → ℕ → List ℕ → ℕ → Table → Table → ℕ → Type 0
PutsMany zero depth bytes at old new end = (at ≡ end) × (old ≡ new)
PutsMany (suc many) depth bytes at old new end =
    (middle : ℕ) × (between : Table) × PutsMany many depth bytes at old between middle
    × PutsBehind depth bytes middle between new end

-- values are put so, or none
abbrev pub PutsMore : ℕ → List ℕ → ℕ → Table → Table → ℕ → Type 0
PutsMore depth bytes at old new end = (many : ℕ) × PutsMany many depth bytes at old new end

-- the starts of the values behind an opening parenthesis, up to and with the closing one, come after those before
abbrev pub PutsStarts : ℕ → List ℕ → ℕ → Table → Table → Result ℕ ReadFault → Type 0
PutsStarts depth bytes at old new (Ok end) =
    (starts : List ℕ) × (vs : List Value21) × (new.starts.items ≡ old.starts.items ++ starts)
    × StandAt bytes starts vs × Counts old.values new.values (sum_by size vs)
    × Goes (Inside (Some depth) ∷ []) [] bytes at end (print_all vs ++ Closing ∷ [])
PutsStarts depth bytes at old new (Err fault) = Fails (Inside (Some depth) ∷ []) bytes at fault

-- the starts of what stands between the equals sign and the semicolon, whose first token is given
abbrev pub PutsBody : List ℕ → Token → Table → Table → Result ℕ ReadFault → Type 0
PutsBody bytes t old new (Ok end) =
    (keyword : Option (List ℕ)) × (vs : List Value21) × (starts : List ℕ) × (wanted : List Sign)
    × (next Body (class_of (lexeme_of bytes t)) ≡ Some wanted)
    × ReadsBody wanted (lexeme_of bytes t) bytes t.end keyword vs end
    × (new.starts.items ≡ old.starts.items ++ starts) × StandAt bytes starts vs
    × Counts old.values new.values (sum_by size vs)
PutsBody bytes t old new (Err fault) = FailsAfter Body bytes t fault

-- an instance whose name is given comes after those before
abbrev pub PutsInstance : Lexeme → List ℕ → ℕ → Table → Table → Result ℕ ReadFault → Type 0
PutsInstance name bytes at old new (Ok end) =
    (i : Instance) × (head : Head) × (starts : List ℕ) × (rest : List Lexeme)
    × (new.heads.items ≡ old.heads.items ++ head ∷ []) × (new.starts.items ≡ old.starts.items ++ starts)
    × Tells bytes new.starts.items head i × Counts old.values new.values (values_of (i ∷ []))
    × SpellsInstance i (name ∷ rest) × Goes (T Equals ∷ Body ∷ T Semi ∷ []) [] bytes at end rest
PutsInstance name bytes at old new (Err fault) = Fails (T Equals ∷ Body ∷ T Semi ∷ []) bytes at fault

-- instances, and what closes the file, are read at a place as a table: it holds what is read there
abbrev pub TablesSection : List ℕ → ℕ → Table → Result ℕ ReadFault → Type 0
TablesSection bytes at table (Ok end) =
    (found : List Instance) × ReadsSection bytes at found (Ok end)
    × Holds bytes table.starts.items table.heads.items found × Counts 0 table.values (values_of found)
TablesSection bytes at table (Err fault) = ReadsSection bytes at [] (Err fault)
