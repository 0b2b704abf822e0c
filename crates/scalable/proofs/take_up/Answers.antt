use Prim.Native.Nat.{ℕ}
use mathlib.Core.List.{List}
use mathlib.Core.Path.{refl, ap, sym, ◌∙◌, subst}
use lib.ListN.{length}
use Rattle.image.specs.Place.{Place}
use Rattle.image.specs.Windows.{of_windows}
use Rattle.image.proofs.GoodWindows.{three-each}
use Rattle.flags.specs.Flags.{set_flags}
use Rattle.scalable.specs.Answers.{TranslationNames}
use Rattle.scalable.specs.Requests.{Decision, decision}
use Rattle.scalable.proofs.Admitted.{too_wide, narrow, narrow_at}
use Rattle.scalable.proofs.take_up.Goals as goal

pub returns-then-pasid_too_wide : goal.returns-then-pasid_too_wide
unfolding set_flags
returns-then-pasid_too_wide c =
    let a = c.args in
    let is = too_wide a.registers a.request (of_windows a.windows.now a.image.now) (sym c.pasid_too_wide.ensures ∙ c.if-pasid_too_wide.true) in record {
      result_value = ap (λ (d : Decision). d.outcome) is;
      result_value_2 = refl;
      image_after = ap (λ (d : Decision). set_flags a.windows.now d.flags a.image.now) is;
    }

pub first_span-requires : goal.first_span-requires
first_span-requires c = (three-each c.args.windows.now (length c.args.image.now) c.requires.0).1

pub returns : goal.returns
returns c =
    let a = c.args in
    let q = a.request in
    let m = of_windows a.windows.now a.image.now in
    let t = c.translate-translated in
    let buffer = t.new.flags in
    let slim = sym c.pasid_too_wide.ensures ∙ c.if-pasid_too_wide.false in
    let whole = ap (decision q) t.ensures.flags_after ∙ narrow a.registers q m slim in
    let stopped = narrow_at a.registers q m slim in
    let there = subst (λ (place : Place). TranslationNames t.result place) stopped t.ensures.translation_names in record {
      result_value = c.answer.ensures.by_index buffer ∙ ap (λ (d : Decision). d.outcome) whole;
      result_value_2 = c.answer.ensures.result_value _ there;
      image_after = c.set_flags.ensures ∙ ap (λ (l : List ℕ). set_flags a.windows.now l a.image.now) (c.flags_to_set-count.ensures.flags_value q buffer ∙ ap (λ (d : Decision). d.flags) whole);
    }
