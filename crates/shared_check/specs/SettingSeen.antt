-- the fields of a setting
use Rattle.std.specs.Prelude.{All}
use Rattle.written_tokens.specs.Guiding.{Guiding}
use Rattle.entry_facts.specs.Facts.{AreFacts}
use Rattle.shared_check.specs.declared.setting.Setting.TheInside.{Inside}

-- what the fields stand for
abbrev pub seen : Inside → Guiding
seen s = s.guide

-- the facts are known
abbrev pub IsSetting : Inside → Type 0
IsSetting s = All (AreFacts s.guide.problem) s.facts.items
