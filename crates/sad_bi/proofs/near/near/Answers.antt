-- `sad_bi::near::near` meets its contract. Assumes nothing.
use Rattle.std.proofs.Common.{◌≡◌, ℕ, [], ◌∷◌, ℤ, pos, ◌-ℤ◌, nat_abs, ◌≤ℤ◌, sym, ap, ◌∙◌, subst, ap₂, arith, to_z-of_z, w16, SFits, to_z, of_z}
use lib.Bits.{bit_and, and_le_r, and_mask}
use Rattle.integers.proofs.Bound.{Within, within-sfits, sfits-within}
use Rattle.integers.proofs.Expr.{Ex, Known, env, nat, var, sub, reads}
use Rattle.sad_bi.specs.Near.{raise, near_bi}
use Rattle.sad_bi.proofs.Cut.{near_within}
use Rattle.sad_bi.proofs.near.near.Goals.{After-raised}
use Rattle.sad_bi.proofs.near.near.Goals as goal

-- the value raised, and the sample's last 14 bits
abbrev x : After-raised → ℤ
x c = c.raised.result

abbrev y : After-raised → ℕ
y c = bit_and c.args.q 16383

is-raised : (c : After-raised) → x c ≡ raise c.args.v
is-raised c = c.raised.ensures ∙ ap raise (to_z-of_z c.ranges.v)

fits-raised : (c : After-raised) → SFits w16 (x c)
fits-raised c = record { sfits = c.raised.type_inv }

ρ : After-raised → ℕ → Known
ρ c = env (record { machine = to_z w16 (of_z w16 (x c)); exact = x c; size = 32768; same = to_z-of_z (fits-raised c); within = within-sfits (fits-raised c) }
    ∷ nat w16 (y c) 16383 (and_le_r c.args.q 16383) tt ∷ [])

abbrev d : Ex
d = sub (var 0) (var 1)

-- their difference has 16 bits
close : (c : After-raised) → Within 32767 (x c -ℤ pos (y c))
close c = subst (λ (z : ℤ). Within 32767 (z -ℤ pos (y c))) (sym (is-raised c)) (near_within c.args.v (y c) c.ranges.v (and_le_r c.args.q 16383))

exactly : (c : After-raised) → to_z w16 (of_z w16 (x c)) -ℤ to_z w16 (y c) ≡ x c -ℤ pos (y c)
unfolding ρ
exactly c = reads (ρ c) d tt

fits : (c : After-raised) → SFits w16 (x c -ℤ pos (y c))
fits c = sfits-within (close c) tt

known : (c : After-raised) → Known
known c = record {
  machine = to_z w16 (of_z w16 (to_z w16 (of_z w16 (x c)) -ℤ to_z w16 (y c)));
  exact = x c -ℤ pos (y c);
  size = 32767;
  same = ap (λ (z : ℤ). to_z w16 (of_z w16 z)) (exactly c) ∙ to_z-of_z (fits c);
  within = close c;
}

abbrev σ : After-raised → ℕ → Known
σ c = env (known c ∷ [])

-- it is what the contract names
named : (c : After-raised) → nat_abs (x c -ℤ pos (y c)) ≡ near_bi c.args.v c.args.q
unfolding near_bi
named c = ap₂ (λ (z : ℤ) (n : ℕ). nat_abs (z -ℤ pos n)) (is-raised c) (and_mask c.args.q 14)

pub overflow_cast-d : goal.overflow_cast-d
overflow_cast-d c = omega (arith, and_le_r c.args.q 16383)

pub overflow_sub-d : goal.overflow_sub-d
overflow_sub-d c = subst (SFits w16) (sym (exactly c)) (fits c)

pub returns : goal.returns
unfolding known
returns c =
    let b = (goal.at.returns c).After-raised in
    let e = c.unsigned_abs.ensures.value ∙ ap nat_abs (reads (σ b) (var 0) tt) in
    (e ∙ named b, omega (arith, e, (close b).bound))
