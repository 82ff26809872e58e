use Rattle.aw_codec.proofs.Held.{name_new}
use Rattle.aw_codec.proofs.values.ValuesRead.add_name.Goals as goal

pub returns-clause-new : goal.returns-clause-new
returns-clause-new c = name_new _ _ c.in_ok-key.key c.in_ok-key.ensures.items _ c.requires c.in_ok-is_new.is_new c.in_ok-is_new.ensures.added
