-- What an export tells its caller, by the definition's reply instead of by the answer that was read. Assumes nothing.
use Prim.Native.Nat.{ℕ}
use mathlib.Core.Path.{◌≡◌}
use Rattle.evc.specs.Answers.{Reply, SubReply}
use Rattle.boundary.specs.Told.{Told, SubTold}

pub told-as : {A : Type 0} {p q : Reply A} {before after : A} {n : ℕ} → p ≡ q → Told p before after n → Told q before after n
told-as e t = rw e at t

pub sub-told-as : {p q : SubReply} {before after : ℕ} {n : ℕ} → p ≡ q → SubTold p before after n → SubTold q before after n
sub-told-as e t = rw e at t
