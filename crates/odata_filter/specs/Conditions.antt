-- What a filter means of a topic.
use Rattle.std.specs.Prelude.{ℕ, Bool, true, false, not, ◌&&◌, ◌||◌, List, bytes_eq, Option, Some, None, is_some}
use Rattle.std.specs.List.{list_any}
use Rattle.std.specs.declared.cmp.Ordering.{Ordering}
use Rattle.std.specs.Ordering.{nat_cmp, int_cmp, is_eq, is_lt, is_gt, is_le, is_ge}
use Rattle.std.specs.Cmp.Lexicographic.{slice_cmp}
use Rattle.memchr.specs.Find.{matches, first_of}
use Rattle.bcf_topics.specs.declared.topic.Topic.{Topic}
use Rattle.odata_filter.specs.declared.topic_members.Member.{Member}
use Rattle.odata_filter.specs.declared.topic_members.Member.TheVariants.{OfText, Index, OfDate}
use Rattle.odata_filter.specs.declared.comparison.Comparison.{Comparison}
use Rattle.odata_filter.specs.declared.comparison.Comparison.TheVariants.{Equal, NotEqual, Greater, AtLeast, Less, AtMost}
use Rattle.odata_filter.specs.declared.topic_test.TopicTest.{TopicTest}
use Rattle.odata_filter.specs.declared.topic_test.TopicTest.TheVariants.{Absent, Present, Text, Number, Date, Contains, Labelled}
use Rattle.odata_filter.specs.TopicMembers.{text_of, date_of, index_of}

-- whether a comparison holds of two values that stand so to each other
abbrev pub holds : Comparison → Ordering → Bool
holds Equal o = is_eq o
holds NotEqual o = not (is_eq o)
holds Greater o = is_gt o
holds AtLeast o = is_ge o
holds Less o = is_lt o
holds AtMost o = is_le o

-- whether it holds of a value that is absent: only `ne` does
abbrev pub holds_of_none : Comparison → Bool
holds_of_none NotEqual = true
holds_of_none Equal = false
holds_of_none Greater = false
holds_of_none AtLeast = false
holds_of_none Less = false
holds_of_none AtMost = false

-- whether it holds of a value that may be absent, and of a literal
abbrev pub compares : {A : Type 0} → (A → A → Ordering) → Comparison → Option A → A → Bool
compares order comparison None literal = holds_of_none comparison
compares order comparison (Some value) literal = holds comparison (order value literal)

-- the literal's bytes stand in a row in the text: there is a first place where they do
abbrev pub occurs : List ℕ → List ℕ → Bool
occurs literal text = is_some (first_of (matches text literal 0))

-- they stand in a text that may be absent
abbrev pub occurs_in : List ℕ → Option (List ℕ) → Bool
occurs_in literal None = false
occurs_in literal (Some text) = occurs literal text

-- the member is there
abbrev pub is_there : Member → Topic → Bool
is_there (OfText member) topic = is_some (text_of member topic)
is_there Index topic = is_some (index_of topic)
is_there (OfDate member) topic = is_some (date_of member topic)

-- whether a topic passes a test of one member: texts compare by their bytes, dates by their seconds
abbrev pub passes : TopicTest → Topic → Bool
passes (Absent member) topic = not (is_there member topic)
passes (Present member) topic = is_there member topic
passes (Text member comparison literal) topic =
    compares (slice_cmp nat_cmp) comparison (text_of member topic) literal
passes (Number comparison literal) topic = compares int_cmp comparison (index_of topic) literal
passes (Date member comparison literal) topic = compares nat_cmp comparison (date_of member topic) literal
passes (Contains member literal) topic = occurs_in literal (text_of member topic)
passes (Labelled literal) topic = list_any (λ label. bytes_eq label literal) topic.body.labels

-- a filter: a test of one member, or what is made of one or two filters
pub data Condition : Type 0 where
  Tested : TopicTest → Condition
  Negated : Condition → Condition
  Both : Condition → Condition → Condition
  Either : Condition → Condition → Condition

-- whether a filter keeps a topic
abbrev pub keeps : Condition → Topic → Bool
keeps (Tested test) topic = passes test topic
keeps (Negated x) topic = not (keeps x topic)
keeps (Both x y) topic = keeps x topic && keeps y topic
keeps (Either x y) topic = keeps x topic || keeps y topic
