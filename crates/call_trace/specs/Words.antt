-- What the words of the command line ask for.
use Rattle.std.specs.Prelude.{ℕ, ◌&&◌, List, [], ◌∷◌, Option, Some, None, codes, if◌then◌else◌}
use Rattle.std.specs.Str.{bytes_eq}
use Rattle.traced_cloud.specs.declared.form.Form.{Form}
use Rattle.traced_cloud.specs.declared.form.Form.TheVariants.{Text, Json}

-- `replay`, and for JSON `--json` behind it
abbrev pub form_of : List (List ℕ) → Option Form
form_of [] = None
form_of (replay ∷ []) = if bytes_eq replay (codes "replay") then Some Text else None
form_of (replay ∷ json ∷ []) = if bytes_eq replay (codes "replay") && bytes_eq json (codes "--json") then Some Json else None
form_of (replay ∷ json ∷ more ∷ words) = None
