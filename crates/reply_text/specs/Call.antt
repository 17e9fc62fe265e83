-- A service call as a text: what it does and to what.
use Rattle.std.specs.Prelude.{ℕ, List, [], ◌∷◌, codes}
use Rattle.words.specs.Word.{space}
use Rattle.words.specs.Line.{text_of}
use Rattle.db_base.specs.declared.names.Place.TheVariants.{Message}
use Rattle.cloud_trait.specs.declared.call.CallKind.{CallKind}
use Rattle.cloud_trait.specs.declared.call.CallKind.TheVariants as kind
use Rattle.cloud_trait.specs.declared.call.Target.{Target}
use Rattle.cloud_trait.specs.declared.call.Target.TheVariants as target
use Rattle.cloud_trait.specs.Ask.{Ask}
use Rattle.cloud_trait.specs.Call.{kind_of, target_of}
use Rattle.reply_text.specs.Name.{lock_word, object_word, queue_word, place_word}

-- what a call does
abbrev pub kind_word : CallKind → List ℕ
kind_word kind.Get = codes "get"
kind_word kind.GetHeld = codes "get_held"
kind_word kind.PutHeld = codes "put_held"
kind_word kind.ListHeld = codes "list_held"
kind_word kind.RemoveHeld = codes "remove_held"
kind_word kind.Send = codes "send"
kind_word kind.Receive = codes "receive"
kind_word kind.Delete = codes "delete"
kind_word kind.Take = codes "take"
kind_word kind.Renew = codes "renew"
kind_word kind.Release = codes "release"

-- the same of a call that was made: there is one kind of put, of listing and of removal
abbrev pub made_word : CallKind → List ℕ
made_word kind.Get = codes "get"
made_word kind.GetHeld = codes "get_held"
made_word kind.PutHeld = codes "put"
made_word kind.ListHeld = codes "list"
made_word kind.RemoveHeld = codes "remove"
made_word kind.Send = codes "send"
made_word kind.Receive = codes "receive"
made_word kind.Delete = codes "delete"
made_word kind.Take = codes "take"
made_word kind.Renew = codes "renew"
made_word kind.Release = codes "release"

-- what a call is about
abbrev pub target_word : Target → List ℕ
target_word (target.Object name) = object_word name
target_word (target.Queue queue) = queue_word queue
target_word (target.Message queue id) = place_word (Message queue id)
target_word (target.Lock lock) = lock_word lock

-- a call
abbrev pub call_text : Ask → List ℕ
call_text ask = text_of space (kind_word (kind_of ask) ∷ target_word (target_of ask) ∷ [])
