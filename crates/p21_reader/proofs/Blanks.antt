-- The token that is cut from after a blank is cut from before it too.
use Rattle.std.proofs.Common.{◌≡◌, ℕ, ◌+◌, ◌<◌, inl, List, [], ◌∷◌, length, get_or, drop, true, Some, Ok, refl, add-one, drop-cons}
use Rattle.p21_lexer.specs.declared.token.Token.{Token}
use Rattle.p21_lexer.specs.TokenSeparators.{is_blank, IsPiece}
use Rattle.p21_lexer.specs.Cutting.{StopsAt, CutsFrom}

one_blank : (b : ℕ) → is_blank b ≡ true → IsPiece (b ∷ [])
one_blank b h = inl (record { byte = b; whole = refl; blank = h })

stop_behind : (bytes : List ℕ) (at stop : ℕ) → at < length bytes → is_blank (get_or bytes at 0) ≡ true → StopsAt bytes (at + 1) stop → StopsAt bytes at stop
stop_behind bytes at stop lt h s =
    let e : drop at bytes ≡ get_or bytes at 0 ∷ drop (at + 1) bytes = rw (add-one at) (drop-cons bytes at 0 lt) in (
      s.0,
      record {
        pieces = (get_or bytes at 0 ∷ []) ∷ s.1.pieces;
        passed = (drop (at + 1) bytes, one_blank (get_or bytes at 0) h, e, s.1.passed);
        stop = s.1.stop;
      },
    )

pub cut_behind : (bytes : List ℕ) (at : ℕ) (t : Token) → at < length bytes → is_blank (get_or bytes at 0) ≡ true → CutsFrom bytes (at + 1) (Ok (Some t)) → CutsFrom bytes at (Ok (Some t))
cut_behind bytes at t lt h k = (stop_behind bytes at t.start lt h k.0, k.1, k.2)
