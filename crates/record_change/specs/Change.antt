-- What a call changes in its counter's record: document 01, "The host", and document 02: Note 2, the current value, and Note 6, the proofs counted for
-- each counter. Assumes nothing.
use Rattle.std.specs.Prelude.{◌+◌, min}
use Rattle.forms.specs.Limits.{max_word}
use Rattle.forms.specs.declared.confirmation.Confirmation.{Confirmation}
use Rattle.forms.specs.declared.record.Record.{Record}
use Rattle.forms.specs.declared.terms.GlobalClock.{GlobalClock}
use Rattle.record_change.specs.declared.change.Change.{Change}

-- confirm: the owner's newer confirmation
abbrev pub confirmed_by : Confirmation → Record → Record
confirmed_by c r = record { held = c; current = r.current; proofs = r.proofs }

-- increment: the new clock as current value
abbrev pub raised_to : GlobalClock → Record → Record
raised_to reading r = record { held = r.held; current = reading.0; proofs = r.proofs }

-- prove and last: "the number of proofs written for that box since opening, .. with the same ceiling", which is 4,294,967,295
abbrev pub proved : Record → Record
proved r = record { held = r.held; current = r.current; proofs = min (r.proofs + 1) max_word }

-- the record after a change
abbrev pub changed_by : Change → Record → Record
changed_by (Change.Confirmed c) = confirmed_by c
changed_by (Change.Raised reading) = raised_to reading
changed_by Change.Proved = proved
