-- Rules that go on with others: what follows an answer is chosen by it. An entry that can't be fetched ends them all.
use Rattle.image.specs.Rules.{Rules, answer, fetch}

unfoldable pub then_rules : {A B : Type 0} → (ended : A → B) → (next : A → Rules B) → Rules A → Rules B
then_rules ended next (answer a) = next a
then_rules ended next (fetch kind at outside rest) = fetch kind at (ended outside) (λ e. then_rules ended next (rest e))
