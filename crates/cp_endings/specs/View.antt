-- What contracts see of endings.
use Rattle.cp_endings.specs.AuditView.{audit_ending_view}
use Rattle.cp_endings.specs.ClientView.{client_ending_view}
use Rattle.cp_endings.specs.Endings as endings
use Rattle.cp_endings.specs.MoreView.{more_ending_view}
use Rattle.cp_endings.specs.declared.ending.Ending.{Ending}
use Rattle.cp_endings.specs.declared.ending.Ending.TheVariants.{Usage, Missing, TooLong, ShortSeed, BadKey, Judged, Valid, Invalid, Key, Client, Audited, Malformed, Replayed, More, Fault, NoMemory}

abbrev pub ending_view : Ending → endings.Outcome
ending_view Usage = endings.usage
ending_view (Missing name) = endings.missing name.now
ending_view (TooLong limit) = endings.too_long limit
ending_view ShortSeed = endings.short_seed
ending_view BadKey = endings.bad_key
ending_view (Judged judgement) = endings.judged judgement
ending_view Valid = endings.valid
ending_view Invalid = endings.invalid
ending_view (Key key) = endings.made key
ending_view (Client ending) = client_ending_view ending
ending_view (Audited ending) = audit_ending_view ending
ending_view (Malformed at) = endings.malformed at
ending_view (Replayed text) = endings.printed text
ending_view (More ending) = more_ending_view ending
ending_view Fault = endings.fault
ending_view NoMemory = endings.no_memory
