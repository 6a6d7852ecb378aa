-- What holds of the routes of a router, and the rows of the table put into one.
use Rattle.std.proofs.Common.{◌≡◌, subst, ◌==◌, ℕ, zero, suc, ◌-◌, List, [], ◌∷◌, length, Bool, true, false, cond, ltb, Option, Some, None, Result, Ok, Err}
use Rattle.matchit.specs.Rows.{RowsOf, param_token, catch_all_token}
use Rattle.matchit.specs.Seek.{own, step, or_else, segment, longest_suffix, with_suffix, same_text, param_step, seek, first, has_slash}
use Rattle.matchit.specs.Route.{Scan, parse_route}
use Rattle.matchit.specs.Router.{RouteOf, InsertsRead}
use Rattle.matchit.specs.declared.error.InsertError.{InsertError}
use Rattle.http_routes.specs.declared.paths.RoutePath.{RoutePath}
use Rattle.http_routes.specs.Paths.{address_of, with_read, with_row}

module _ {K : Type 0} (P : K → Type 0) where
  -- each key has it
  abbrev pub AllKeys : RowsOf K → Type 0
  AllKeys [] = Unit {0}
  AllKeys ((t, k) ∷ rest) = P k × AllKeys rest

  -- the key that is there has it
  abbrev pub IfKey : Option K → Type 0
  IfKey None = Unit {0}
  IfKey (Some k) = P k

  own-all : (r : RowsOf K) → AllKeys r → IfKey (own r)
  own-all [] all = tt
  own-all (([], k) ∷ r) all = all.0
  own-all ((x ∷ t, k) ∷ r) all = own-all r all.1

  step-all : (b : ℕ) (r : RowsOf K) → AllKeys r → AllKeys (step b r)
  step-all b [] all = tt
  step-all b (([], k) ∷ r) all = step-all b r all.1
  step-all b ((x ∷ t, k) ∷ r) all = by (x == b) (step-all b r all.1)
    where
      by : (v : Bool) → AllKeys (step b r) → AllKeys (cond v ((t, k) ∷ step b r) (step b r))
      by true rest = (all.0, rest)
      by false rest = rest

  with_suffix-all : (s : List ℕ) (r : RowsOf K) → AllKeys r → AllKeys (with_suffix s r)
  with_suffix-all s [] all = tt
  with_suffix-all s ((t, k) ∷ r) all = by (same_text (segment t) s) (with_suffix-all s r all.1)
    where
      by : (v : Bool) → AllKeys (with_suffix s r)
          → AllKeys (cond v ((t, k) ∷ with_suffix s r) (with_suffix s r))
      by true rest = (all.0, rest)
      by false rest = rest

  param_step-all : (r : RowsOf K) (path : List ℕ) → AllKeys r → AllKeys (param_step r path).1
  unfolding param_step
  param_step-all r path all =
      by (ltb 0 (length (longest_suffix (segment path) r))) (has_slash path)
      (length (segment path) - length (longest_suffix (segment path) r)) (length path)
    where
      by : (u v : Bool) (n m : ℕ)
          → AllKeys (
          cond {A = ℕ × RowsOf K} u
          (n, with_suffix (longest_suffix (segment path) r) r) (cond v (0, []) (m, r))
          ).1
      by true v n m = with_suffix-all (longest_suffix (segment path) r) r all
      by false true n m = tt
      by false false n m = all

  or_else-all : (x y : Option K) → IfKey x → IfKey y → IfKey (or_else x y)
  or_else-all None y a b = b
  or_else-all (Some k) y a b = a

  seek-all : (n : ℕ) (r : RowsOf K) (path : List ℕ) → AllKeys r → IfKey (seek n r path)
  unfolding seek
  seek-all n r [] all = own-all r all
  seek-all (suc n) r (b ∷ path) all = seek-all n r path all
  seek-all zero r (b ∷ path) all =
      let ps : ℕ × RowsOf K = param_step (step param_token r) (b ∷ path) in
      or_else-all (seek 0 (step b r) path) (or_else (seek (ps.0 - 1) ps.1 path) (own (step catch_all_token r)))
      (seek-all 0 (step b r) path (step-all b r all))
      (or_else-all (seek (ps.0 - 1) ps.1 path) (own (step catch_all_token r))
      (seek-all (ps.0 - 1) ps.1 path (param_step-all (step param_token r) (b ∷ path) (step-all param_token r all)))
      (own-all (step catch_all_token r) (step-all catch_all_token r all)))

  -- what the router finds has it
  pub found : (r : RowsOf K) (path : List ℕ) (k : K) → AllKeys r → first r path ≡ Some k → P k
  found r path k all e = subst IfKey e (seek-all 0 r path all)

put_read : (x : Result Scan InsertError) (row : RoutePath) (old new : RowsOf (RouteOf RoutePath)) (u : Unit {0})
    → InsertsRead x row old new (Ok u) → new ≡ with_read old row x
put_read (Ok scan) row old new u is = is.1
put_read (Err e) row old new u is = is.0

-- a row that was put in is among the routes
pub put : (row : RoutePath) (old new : RowsOf (RouteOf RoutePath)) (u : Unit {0})
    → InsertsRead (parse_route (address_of row)) row old new (Ok u) → new ≡ with_row old row
put row old new u is = put_read (parse_route (address_of row)) row old new u is
