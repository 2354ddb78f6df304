-- The digits are those of the calls at each place.
use Rattle.std.proofs.Common.{rules, get_or, refl, ◌∙◌}
use Rattle.std.proofs.lemmas.List.FromFn.{fill_by_all}
use Rattle.line.specs.Digits.{eight}
use Rattle.line.proofs.digits.hex.Goals as goal

pub returns : goal.returns
unfolding eight
returns c =
    let digits = c.from_fn.result in
    fill_by_all (λ k. get_or digits k 0) digits 8 0 c.from_fn.ensures.items.long (λ k l. refl) ∙ search rules
