use Rattle.shift_real.proofs.starts.register_contents.Goals as goal

pub contents-requires : goal.contents-requires
contents-requires c = c.requires.short

pub returns : goal.returns
returns c = record { order = c.requires.order; short = c.requires.short; contents = c.in_ok-contents.ensures }
