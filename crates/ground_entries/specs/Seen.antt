-- entries as the definitions see them
use Rattle.charge_model.specs.GroundList.{Entry as Marked}
use Rattle.ground_entries.specs.declared.ground_list.Entry.{Entry}

-- the entry that the fields stand for
abbrev pub seen : Entry → Marked
seen e = record { charges = e.charges; mark = e.mark }
