-- What follows where a call succeeded.
use Rattle.std.proofs.Common.{Result, Ok, Err, OnOk}

pub on_ok : {T E A B : Type 0} (r : Result T E) → (A → B) → OnOk r A → OnOk r B
on_ok (Ok x) f a = f a
on_ok (Err e) f a = tt

pub on_ok2 : {T E A B C : Type 0} (r : Result T E) → (A → B → C) → OnOk r A → OnOk r B → OnOk r C
on_ok2 (Ok x) f a b = f a b
on_ok2 (Err e) f a b = tt
