-- What is read of a body.
use Rattle.std.proofs.Common.{◌≡◌, ℕ, List, Bool, true, false, None, option_and_then, refl}
use Rattle.std.specs.Str.{IsUtf8, is_utf8}
use Rattle.std.proofs.lemmas.Str.{is_utf8-from_IsUtf8, IsUtf8-from_is_utf8}
use Rattle.serde_json.specs.Read.{read}
use Rattle.bcf_http.specs.Asked.{object_of, if_object}

pub of_text : (body : List ℕ) → IsUtf8 body → object_of body ≡ option_and_then if_object (read body)
unfolding object_of
of_text body text = rw (is_utf8-from_IsUtf8 body text) refl

by_test : (body : List ℕ) (b : Bool) → is_utf8 body ≡ b → (IsUtf8 body → ⊥) → object_of body ≡ None
unfolding object_of
by_test body true e bad = absurd (bad (IsUtf8-from_is_utf8 body e))
by_test body false e bad = rw e refl

pub not_text : (body : List ℕ) → (IsUtf8 body → ⊥) → object_of body ≡ None
not_text body bad = by_test body (is_utf8 body) refl bad
