-- What readers promise: of what they answer, of the tokens from a value's first one on, and of those that are left.
use Rattle.std.specs.Prelude.{◌≡◌, ℕ, suc, ◌≤◌, ◌<◌, List, ◌∷◌, map, length, Bool, false, Option, Some, None, MatchOption}
use Rattle.std.specs.Prelude.{Result, IfOk, OnOk, IsErrOf, Vec}
use Rattle.json.specs.Token.{Token}
use Rattle.json.specs.Reads.{token_of}
use Rattle.json.specs.declared.token.Token.{Token as Found}
use Rattle.serde_json.specs.Data.{Data, Items}
use Rattle.serde_json.specs.View.{items_of as to_items}
use Rattle.json_records.specs.declared.error.ReadError.{ReadError}
use Rattle.json_records.specs.declared.error.ReadError.TheVariants.{NotJson}
use Rattle.json_records.specs.Reading.{data_of, items_of, IsRead, IsReadUnder, list_form, is_list}
use Rattle.json_records.specs.Rows.{pass_row, is_row}

-- ---- words of contracts

-- an answer has the data as its form; it is none only if the data fails the test
abbrev pub ReadsForm : {T : Type 0} → Result (Option T) ReadError → (T → Data) → (Data → Bool) → ℕ → Found → List Token → List Token → Type 0
ReadsForm result form test n first old new = IfOk result (λ o. IsRead form test n (token_of first ∷ old) new o)

-- likewise of the data under that name
abbrev pub ReadsUnder : {T : Type 0} → Result (Option T) ReadError → List ℕ → (T → Data) → (Data → Bool) → ℕ → Found → List Token → List Token → Type 0
ReadsUnder result name form test n first old new = IfOk result (λ o. IsReadUnder name form test n (token_of first ∷ old) new o)

-- likewise of an array of such values
abbrev pub ReadsList : {T A : Type 0} → Result (Option (Vec T A)) ReadError → (T → Data) → (Data → Bool) → ℕ → Found → List Token → List Token → Type 0
ReadsList result form test n first old new = ReadsForm result (λ xs. list_form (map form xs.items)) (is_list test) n first old new

-- likewise of an array of items of which each has its own form and test
abbrev pub ReadsRow : {T : Type 0} → Result (Option T) ReadError → (T → List Data) → List (Data → Bool) → ℕ → Found → List Token → List Token → Type 0
ReadsRow result forms tests n first old new = ReadsForm result (λ x. list_form (forms x)) (is_row tests) n first old new

-- likewise of such items up to the end of their array
abbrev pub ReadsItems : {T : Type 0} → Result (Option T) ReadError → (T → List Data) → List (Data → Bool) → ℕ → List Token → List Token → Type 0
ReadsItems result forms tests n old new = IfOk result (λ o. (ds : Items) × (items_of n old ≡ Some (ds, new))
    × MatchOption o (pass_row tests ds ≡ false) (λ x. ds ≡ to_items (forms x)))

-- the token opens such a value, of whose inner values an answer is the depth; it is none only for a value of another kind
abbrev pub Opens : Result (Option ℕ) ReadError → Token → (Data → Bool) → ℕ → Found → List Token → List Token → Type 0
Opens result begin is_such n first old new = IfOk result (λ o. MatchOption o
    ((d : Data) × (data_of n (token_of first ∷ old) ≡ Some (d, new)) × (is_such d ≡ false))
    (λ inner. (token_of first ≡ begin) × (n ≡ suc inner) × (new ≡ old)))

-- `NotJson` is answered only if that is none
abbrev pub NotJsonOnlyIfNone : {T A : Type 0} → Result T ReadError → Option A → Type 0
NotJsonOnlyIfNone result read = IsErrOf result NotJson → read ≡ None

-- `NotJson` is answered only if the tokens begin with no data
abbrev pub NotJsonOnlyIfNoData : {T : Type 0} → Result T ReadError → ℕ → Found → List Token → Type 0
NotJsonOnlyIfNoData result n first old = NotJsonOnlyIfNone result (data_of n (token_of first ∷ old))

abbrev pub IsNeverNotJson : {T : Type 0} → Result T ReadError → Type 0
IsNeverNotJson result = IsErrOf result NotJson → ⊥

-- with an answer no more tokens are left than there were
abbrev pub LeavesNoMore : {T : Type 0} → Result T ReadError → List Token → List Token → Type 0
LeavesNoMore result old new = OnOk result (length new ≤ length old)

abbrev pub LeavesFewer : {T : Type 0} → Result T ReadError → List Token → List Token → Type 0
LeavesFewer result old new = OnOk result (length new < length old)
