-- Doors that are opened one after another.
use Rattle.std.proofs.Common.{◌≡◌, ◌+◌, ℕ, List, [], ◌∷◌, ◌++◌, map, length, Bool, ◌||◌, refl, sym, ap, subst, arith}
use Rattle.std.specs.List.{list_any}
use Rattle.std.proofs.lemmas.List.{map-append, length-map}
use Rattle.bim_net.specs.ConnectionViews.{DoorSeen, IsNew}
use Rattle.bim_net.specs.Hosts.{AreNew}

-- one more new door
new_push : (tells : Bool) (first : ℕ) (doors : List DoorSeen) (d : DoorSeen) → AreNew tells first doors → IsNew tells (first + length doors) d → AreNew tells first (doors ++ d ∷ [])
new_push tells first [] d are is = (subst (λ (n : ℕ). IsNew tells n d) (let e : first + 0 ≡ first = omega arith in e) is, tt)
new_push tells first (x ∷ xs) d are is = (
  are.0,
  new_push tells (first + 1) xs d are.1 (subst (λ (n : ℕ). IsNew tells n d) (let e : first + length (x ∷ xs) ≡ first + 1 + length xs = omega arith in e) is),
)

pub new_more : {D : Type 0} (tells : Bool) (seen : D → DoorSeen) (doors : List D) (d : D) (n : ℕ) → length doors ≡ n → AreNew tells 0 (map seen doors) → IsNew tells n (seen d)
    → AreNew tells 0 (map seen (doors ++ d ∷ []))
new_more tells seen doors d n count are is =
    let next : n ≡ 0 + length (map seen doors) = (let e : length (map seen doors) ≡ length doors = length-map doors seen in omega arith) in
    subst (λ (l : List DoorSeen). AreNew tells 0 l) (sym (map-append seen doors (d ∷ [])))
    (new_push tells 0 (map seen doors) (seen d) are (subst (λ (k : ℕ). IsNew tells k (seen d)) next is))

-- a test of what is seen
pub any_map : {D : Type 0} (test : DoorSeen → Bool) (seen : D → DoorSeen) (doors : List D) → list_any (λ d. test (seen d)) doors ≡ list_any test (map seen doors)
any_map test seen [] = refl
any_map test seen (d ∷ ds) = ap (λ (b : Bool). test (seen d) || b) (any_map test seen ds)
