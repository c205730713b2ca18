-- What the reader shows from outside.
--   shows       a record that shows one thing shows what equals it
-- Assumes nothing.
use mathlib.Core.Path.{◌≡◌, subst}
use Rattle.records.specs.Reading.{Read}
use Rattle.corkpaddle.specs.Reader.{Shows}
use Rattle.corkpaddle.specs.declared.reader.Record.{Record}

pub shows : {r : Record} {x y : Read} → x ≡ y → Shows r x → Shows r y
shows {r} e s = subst (Shows r) e s
