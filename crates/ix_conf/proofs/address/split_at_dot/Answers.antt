use Rattle.std.proofs.Common.{ℕ, ◌+◌, Option, ap, ◌∙◌}
use Rattle.std.proofs.lemmas.List.{take_rest}
use Rattle.ix_conf.specs.Address.{split_at}
use Rattle.ix_conf.proofs.address.split_at_dot.Goals as goal

pub returns-in-Some-clause-before : goal.returns-in-Some-clause-before
returns-in-Some-clause-before c = ap (λ (o : Option ℕ). (split_at c.args.text.now o).0) c.in-Some.ensures.place

pub returns-in-Some-clause-behind : goal.returns-in-Some-clause-behind
returns-in-Some-clause-behind c =
    take_rest c.args.text.now (c.in-Some.at + 1) ∙ ap (λ (o : Option ℕ). (split_at c.args.text.now o).1) c.in-Some.ensures.place

pub returns-in-None-clause-before : goal.returns-in-None-clause-before
returns-in-None-clause-before c = ap (λ (o : Option ℕ). (split_at c.args.text.now o).0) c.in-None.ensures.place

pub returns-in-None-clause-behind : goal.returns-in-None-clause-behind
returns-in-None-clause-behind c = ap (λ (o : Option ℕ). (split_at c.args.text.now o).1) c.in-None.ensures.place
