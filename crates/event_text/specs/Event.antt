-- The spelling of an event: a line of words parted by one space, ended by a line feed.
use Rattle.std.specs.Prelude.{ℕ, ◌≡◌, Bool, true, false, List, [], ◌∷◌, ◌++◌, map, codes, Result, IfOk, IfSome, IsTrue}
use Rattle.std.specs.Fmt.{decimal}
use Rattle.std.specs.declared.string.String.{String}
use Rattle.std.specs.String.{string_bytes}
use Rattle.db_base.specs.Wish.{ArePositions}
use Rattle.db_base.specs.declared.wish.Wish.{Wish}
use Rattle.db_base.specs.declared.wish.Wish.TheVariants.{Plain, Fail, Lost, Hide, Old, Give}
use Rattle.words.specs.Word.{hexadecimal, AreBytes, IsNumber, AreNumbers, space, newline}
use Rattle.words.specs.Line.{text_of, last_words}
use Rattle.event_text.specs.declared.event.Event.{Event}
use Rattle.event_text.specs.declared.keyword.Keyword.{Keyword}
use Rattle.event_text.specs.RoleWord.{role_text}
use Rattle.event_text.specs.Keyword.{keyword_text, is_shell}
use Rattle.event_text.specs.declared.event.Event.TheVariants.{Open, Close, Renew, Insert, Put, Update, Delete, Add, Commit, Abort, Read, Scan, Lookup, Page, Tree, Policy, Work, Step, Run, Crash, Wait, Report, Sweep, Settle}

-- the words of a wish
abbrev pub wish_words : Wish → List (List ℕ)
wish_words Plain = codes "plain" ∷ []
wish_words Fail = codes "fail" ∷ []
wish_words Lost = codes "lost" ∷ []
wish_words Hide = codes "hide" ∷ []
wish_words (Old version) = codes "old" ∷ decimal version ∷ []
wish_words (Give positions) = codes "give" ∷ map decimal positions

-- the words behind the session of a crash
abbrev pub crash_words : Bool → List (List ℕ)
crash_words true = codes "done" ∷ []
crash_words false = []

-- the words of an event
abbrev pub event_words : Event → List (List ℕ)
event_words (Open session client) = codes "open" ∷ decimal session ∷ decimal client ∷ []
event_words (Close session) = codes "close" ∷ decimal session ∷ []
event_words (Renew session) = codes "renew" ∷ decimal session ∷ []
event_words (Insert session tree key payload attr) = codes "insert" ∷ decimal session ∷ decimal tree ∷ hexadecimal key ∷ hexadecimal payload ∷ last_words attr
event_words (Put session tree key payload attr) = codes "put" ∷ decimal session ∷ decimal tree ∷ hexadecimal key ∷ hexadecimal payload ∷ hexadecimal attr ∷ []
event_words (Update session tree key payload) = codes "update" ∷ decimal session ∷ decimal tree ∷ hexadecimal key ∷ hexadecimal payload ∷ []
event_words (Delete session tree key) = codes "delete" ∷ decimal session ∷ decimal tree ∷ hexadecimal key ∷ []
event_words (Add session tree key amount) = codes "add" ∷ decimal session ∷ decimal tree ∷ hexadecimal key ∷ decimal amount ∷ []
event_words (Commit session) = codes "commit" ∷ decimal session ∷ []
event_words (Abort session) = codes "abort" ∷ decimal session ∷ []
event_words (Read session tree key) = codes "read" ∷ decimal session ∷ decimal tree ∷ hexadecimal key ∷ []
event_words (Scan session tree from to) = codes "scan" ∷ decimal session ∷ decimal tree ∷ hexadecimal from ∷ hexadecimal to ∷ []
event_words (Lookup session tree attr) = codes "lookup" ∷ decimal session ∷ decimal tree ∷ hexadecimal attr ∷ []
event_words (Page session tree page) = codes "page" ∷ decimal session ∷ decimal tree ∷ decimal page ∷ []
event_words (Tree session tree) = codes "tree" ∷ decimal session ∷ decimal tree ∷ []
event_words (Policy session role k) = codes "policy" ∷ decimal session ∷ role_text role ∷ decimal k ∷ []
event_words (Work session) = codes "work" ∷ decimal session ∷ []
event_words (Step session wish) = codes "step" ∷ decimal session ∷ wish_words wish
event_words (Run session) = codes "run" ∷ decimal session ∷ []
event_words (Crash session done) = codes "crash" ∷ decimal session ∷ crash_words done
event_words (Wait ticks) = codes "wait" ∷ decimal ticks ∷ []
event_words (Report tree) = codes "report" ∷ decimal tree ∷ []
event_words (Sweep tree) = codes "sweep" ∷ decimal tree ∷ []
event_words Settle = codes "settle" ∷ []

-- words as a line
abbrev pub line_of : List (List ℕ) → List ℕ
line_of words = text_of space words ++ newline ∷ []

-- what was written is the line of these words, unless it failed
abbrev pub Spells : {Z E : Type 0} → Result (String Z) E → List (List ℕ) → Type 0
Spells {Z} result words = IfOk result (λ (line : String Z). string_bytes line ≡ line_of words)

-- the line of an event
abbrev pub spelling : Event → List ℕ
spelling event = line_of (event_words event)

-- 1 to 256 positions, and numbers below 2 ^ 64
abbrev pub IsWish : Wish → Type 0
IsWish Plain = Unit {0}
IsWish Fail = Unit {0}
IsWish Lost = Unit {0}
IsWish Hide = Unit {0}
IsWish (Old version) = IsNumber version
IsWish (Give positions) = ArePositions positions × AreNumbers positions

-- numbers are below 2 ^ 64, and bytes below 256: all that a value of the program is
abbrev pub IsInRange : Event → Type 0
IsInRange (Open session client) = IsNumber session × IsNumber client
IsInRange (Close session) = IsNumber session
IsInRange (Renew session) = IsNumber session
IsInRange (Insert session tree key payload attr) = IsNumber session × IsNumber tree × AreBytes key × AreBytes payload × IfSome attr AreBytes
IsInRange (Put session tree key payload attr) = IsNumber session × IsNumber tree × AreBytes key × AreBytes payload × AreBytes attr
IsInRange (Update session tree key payload) = IsNumber session × IsNumber tree × AreBytes key × AreBytes payload
IsInRange (Delete session tree key) = IsNumber session × IsNumber tree × AreBytes key
IsInRange (Add session tree key amount) = IsNumber session × IsNumber tree × AreBytes key × IsNumber amount
IsInRange (Commit session) = IsNumber session
IsInRange (Abort session) = IsNumber session
IsInRange (Read session tree key) = IsNumber session × IsNumber tree × AreBytes key
IsInRange (Scan session tree from to) = IsNumber session × IsNumber tree × AreBytes from × AreBytes to
IsInRange (Lookup session tree attr) = IsNumber session × IsNumber tree × AreBytes attr
IsInRange (Page session tree page) = IsNumber session × IsNumber tree × IsNumber page
IsInRange (Tree session tree) = IsNumber session × IsNumber tree
IsInRange (Policy session role k) = IsNumber session × IsNumber k
IsInRange (Work session) = IsNumber session
IsInRange (Step session wish) = IsNumber session × IsWish wish
IsInRange (Run session) = IsNumber session
IsInRange (Crash session done) = IsNumber session
IsInRange (Wait ticks) = IsNumber ticks
IsInRange (Report tree) = IsNumber tree
IsInRange (Sweep tree) = IsNumber tree
IsInRange Settle = Unit {0}

-- a line that spells an event
pub record IsEvent (line : List ℕ) (event : Event) : Type 0 where
  pub in_range : IsInRange event
  pub is : line ≡ spelling event

-- the line of a shell that spells an event of session 1: the event's words without the session
pub record IsShellLine (line : List ℕ) (event : Event) : Type 0 where
  pub keyword : Keyword
  pub rest : List (List ℕ)
  pub in_range : IsInRange event
  pub shell : IsTrue (is_shell keyword)
  pub words : event_words event ≡ keyword_text keyword ∷ decimal 1 ∷ rest
  pub is : line ≡ line_of (keyword_text keyword ∷ rest)
