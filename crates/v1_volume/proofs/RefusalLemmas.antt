-- Why a volume of the first version isn't taken over.
use Rattle.std.proofs.Common.{◌≡◌, ◌≤◌, ◌<◌, ◌⊎◌, ◌∙◌, ℕ, zero, suc, Option, None, Some, Result, Ok, Err, IfErr, IfOk, refl, sym, ap, subst, inl, inr, ⊎_elim, arith}
use Rattle.std.proofs.lemmas.Bool.{cases_lt}
use Rattle.tee_base.specs.Words.{RegionLeaves}
use Rattle.epoch.specs.Mounts.{IsKeptFromOpening}
use Rattle.epoch.specs.declared.answer.OpenAnswer.TheVariants.{OldGarbled, OldMismatch}
use Rattle.epoch.specs.declared.header.TreeEntry.{TreeEntry}
use Rattle.region_plan.specs.Layout.{layout}
use Rattle.region_plan.specs.Regions.{region_of}
use Rattle.region_plan.specs.declared.form.Form.TheVariants.{One}
use Rattle.v1_volume.specs.Checking.{Stand}
use Rattle.tree_paths.specs.Tree.{Look}
use Rattle.tree_paths.specs.Walk.{Wrong, first_wrong}
use Rattle.v1_volume.specs.Answers.{AnswersRules, AnswersWalk, open_answer}
use Rattle.v1_volume.specs.Old.{IsFirstBroken, first_garbled, first_refusal, garbled_at, mismatch_of, old_leaves, old_refusal, old_visits}
use Rattle.v1_volume.specs.declared.answer.OldAnswer.{OldAnswer}
use Rattle.v1_volume.specs.declared.answer.OldAnswer.TheVariants as answers
use Rattle.v1_volume.specs.Taken.{by_rules, first_none}

module _ (regions : ℕ → RegionLeaves) where
  stands_not : (r : ℕ) → Stand (regions r) → (leaf : ℕ) → region_of (layout One) (regions r) ≡ Err leaf → ⊥
  stands_not r stand leaf broken = absurd (let e = sym stand ∙ broken in cc)

  -- the first that breaks one, at the last of so many
  first_here : (region leaf : ℕ) → IsFirstBroken regions region leaf → first_garbled (suc region) regions ≡ Some (OldGarbled region leaf)
  unfolding first_garbled
  first_here region leaf is =
      let rest : first_garbled region regions ≡ None = first_none regions region (λ r low. stands_not r (is.first r low)) in
      rw rest (ap (garbled_at region) is.broken)

  -- and however many there are besides
  first_is : (n region leaf : ℕ) → region < n → IsFirstBroken regions region leaf → first_garbled n regions ≡ Some (OldGarbled region leaf)
  unfolding first_garbled
  first_is zero region leaf low is = absurd (omega (arith, low))
  first_is (suc n) region leaf low is =
      ⊎_elim
      (λ (less : region < n). let rest : first_garbled n regions ≡ Some (OldGarbled region leaf) = first_is n region leaf less is in rw rest refl)
      (λ (more : n ≤ region).
      let last : region ≡ n = omega (arith, more, low) in
      subst (λ (k : ℕ). first_garbled (suc k) regions ≡ Some (OldGarbled region leaf)) last (first_here region leaf is))
      (cases_lt region n)

module _ (look : Look) (root : TreeEntry) where
  by_tags : (wrong : Wrong) → first_wrong look (old_visits look root) ≡ Some wrong → old_refusal look root ≡ Some (OldMismatch wrong.tags)
  unfolding old_refusal
  by_tags wrong is = ap (λ (w : Option Wrong). first_refusal (mismatch_of w) (first_garbled 16 (old_leaves look root))) is

  -- what is answered of all places and regions is why it isn't taken over, unless a call failed or there was no memory
  pub refused_told : {A : Type 0} (result : Result A OldAnswer) → AnswersWalk look (old_visits look root) result → AnswersRules (old_leaves look root) result
      → IfErr result (λ why. IsKeptFromOpening (open_answer why) ⊎ (old_refusal look root ≡ Some (open_answer why)))
  refused_told (Ok done) walk rules = tt
  refused_told (Err answers.Failed) walk rules = inl (inl refl)
  refused_told (Err answers.NoMemory) walk rules = inl (inr refl)
  refused_told (Err (answers.Mismatch tags)) walk rules = inr (by_tags (record { place = walk.0; tags = tags }) walk.1)
  refused_told (Err (answers.Garbled region leaf)) walk rules =
      inr (by_rules look root walk ∙ first_is (old_leaves look root) 16 region leaf rules.below rules)

  pub taken_told : {A : Type 0} (result : Result A OldAnswer) → AnswersWalk look (old_visits look root) result → AnswersRules (old_leaves look root) result
      → IfOk result (λ done. old_refusal look root ≡ None)
  taken_told (Ok done) walk rules =
      by_rules look root walk ∙ first_none (old_leaves look root) 16 (λ r low. stands_not (old_leaves look root) r (rules r low))
  taken_told (Err why) walk rules = tt
