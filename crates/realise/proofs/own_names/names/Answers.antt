use Rattle.std.proofs.Common.{ℕ, ap, ◌∙◌, sym, subst, unwrap_or}
use Rattle.realise.specs.Names.{IsPrefixCount, own_names}
use Rattle.realise.proofs.Free.{prefix_counted}
use Rattle.realise.proofs.own_names.names.Goals as goal

pub returns : goal.returns
returns c = record {
  count = c.in_ok-count.count;
  apart = subst (λ (n : ℕ). IsPrefixCount c.args.file.now c.args.bits n) (sym c.in_ok-count.ensures) (prefix_counted c.args.file.now c.args.bits c.requires.lawful);
  inputs = c.in_ok-given_or_own.ensures ∙ ap (λ (many : ℕ). unwrap_or c.args.file.now.input_names (own_names c.in_ok-count.count 120 many)) c.from.ensures;
  outputs = c.in_ok-given_or_own-2.ensures ∙ ap (λ (many : ℕ). unwrap_or c.args.file.now.output_names (own_names c.in_ok-count.count 122 many)) c.from-2.ensures;
  latch_inputs = c.in_ok-own_names.ensures;
  latch_outputs = c.in_ok-own_names-2.ensures;
}
