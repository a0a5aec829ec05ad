-- The numbers of refusals in document 01 and in 02, W1 to W5, for the names that code has for them.
use Rattle.std.specs.Prelude.{ℕ, Result, Ok, Err}
use Rattle.machine.specs.declared.refusals.Refusal.{Refusal}
use Rattle.machine.specs.declared.refusals.Refusal.TheVariants.{TooLong, NoRoom, UnknownKind, CutShort, FieldRange, AlreadyIn, NotIn, WrongSlot, FloatTooLong, NotOpposite, HookFull, NoPair, Tied, TornLog, BadState, YarnTwice, Stretched}

abbrev pub number_of : Refusal → ℕ
number_of TooLong = 1
number_of NoRoom = 2
number_of UnknownKind = 3
number_of CutShort = 4
number_of FieldRange = 5
number_of AlreadyIn = 6
number_of NotIn = 7
number_of WrongSlot = 8
number_of FloatTooLong = 9
number_of NotOpposite = 10
number_of HookFull = 11
number_of NoPair = 12
number_of Tied = 13
number_of TornLog = 14
number_of BadState = 15
number_of YarnTwice = 16
number_of Stretched = 17

-- the number that a result tells: a refusal's, or 0 where it was done
abbrev pub told_number : {A : Type 0} → Result A Refusal → ℕ
told_number (Ok _) = 0
told_number (Err why) = number_of why
