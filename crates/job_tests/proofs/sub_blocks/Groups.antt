-- A sub-block's tests, group by group: what is left to tell where the groups before have told nothing. Assumes nothing.
use Prim.Native.Nat.{ℕ}
use mathlib.Core.Path.{◌≡◌, refl}
use mathlib.Core.List.{List, ◌++◌}
use Rattle.std.specs.Prelude.{Ok}
use Rattle.evc.specs.declared.SubBlock.{SubBlock}
use Rattle.evc.specs.declared.Component.TheVariants.{Y, U, «V»}
use Rattle.evc.specs.Reports.{Named, named, report}
use Rattle.evc.specs.SubBlocks.{luma_entries, chroma_entries, given, pair_yu, pair_yv, pair_uv, report_of_sub}
use Rattle.job_tests.proofs.Chain.{told-rest}

module _ (n : ℕ) (s : SubBlock) where
  abbrev pub of-y : List Named
  of-y = named Y (given s.y (luma_entries n s))

  abbrev pub of-u : List Named
  of-u = named U (given s.u (chroma_entries n s))

  abbrev pub of-v : List Named
  of-v = named «V» (given s.v (chroma_entries n s))

  abbrev pub of-yu : List Named
  of-yu = named U (pair_yu s)

  abbrev pub of-yv : List Named
  of-yv = named «V» (pair_yv s)

  -- the last pair, and each group with those behind it
  abbrev pub from-uv : List Named
  from-uv = named «V» (pair_uv s)

  abbrev pub from-yv : List Named
  from-yv = of-yv ++ from-uv

  abbrev pub from-yu : List Named
  from-yu = of-yu ++ from-yv

  abbrev pub from-v : List Named
  from-v = of-v ++ from-yu

  abbrev pub from-u : List Named
  from-u = of-u ++ from-v

  pub whole : report (of-y ++ from-u) ≡ report_of_sub n s
  unfolding report_of_sub
  whole = refl

  module _ (y : Ok tt ≡ report of-y) where
    pub past-y : report from-u ≡ report_of_sub n s
    past-y = told-rest of-y from-u y whole

    module _ (u : Ok tt ≡ report of-u) where
      pub past-u : report from-v ≡ report_of_sub n s
      past-u = told-rest of-u from-v u past-y

      module _ (v : Ok tt ≡ report of-v) where
        pub past-v : report from-yu ≡ report_of_sub n s
        past-v = told-rest of-v from-yu v past-u

        module _ (yu : Ok tt ≡ report of-yu) where
          pub past-yu : report from-yv ≡ report_of_sub n s
          past-yu = told-rest of-yu from-yv yu past-v

          pub past-yv : Ok tt ≡ report of-yv → report from-uv ≡ report_of_sub n s
          past-yv yv = told-rest of-yv from-uv yv past-yu
