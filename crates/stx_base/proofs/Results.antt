-- What holds of a result, by what holds of it otherwise.
use Rattle.std.proofs.Common.{Result, Ok, Err}
use Rattle.std.specs.Prelude.{IfOk, OnErr, OnOk}

pub if_ok : {T E : Type 0} {A B : T → Type 0} (r : Result T E) → ((x : T) → A x → B x) → IfOk r A → IfOk r B
if_ok (Ok x) more a = more x a
if_ok (Err e) more a = a

pub on_ok_two : {T E : Type 0} (r : Result T E) {A B C : Type 0} → (A → B → C) → OnOk r A → OnOk r B → OnOk r C
on_ok_two (Ok x) both a b = both a b
on_ok_two (Err e) both a b = b

-- what holds where the result is an Ok, and also where it is an Err, holds
pub either_way : {T E : Type 0} {A : T → Type 0} {B P : Type 0} (r : Result T E) → IfOk r A → OnErr r B → ((x : T) → A x → P) → (B → P) → P
either_way (Ok x) a b ok err = ok x a
either_way (Err e) a b ok err = err b
