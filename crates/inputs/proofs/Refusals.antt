-- A refused call is the identity, whatever it would have answered.
use Rattle.std.proofs.Common.{◌≡◌, ℕ, false, is_ok, Some, None, Ok, Err, Option, Result, ap, refl, ◌∙◌, arith}
use Rattle.std.specs.Result.{result_map_both}
use Rattle.events.specs.declared.fault.BookFault.{BookFault}
use Rattle.events.specs.Outcomes.{Outcome}
use Rattle.inputs.specs.Asking.{found_or}

-- what a part of the state kept when a call was refused, the whole of it kept
pub refused : {A B S T : Type 0} (f : Option BookFault) (a : A) (b : B) (old new left : S) (o n l : T) (e : BookFault) (r : Result B BookFault)
    → Outcome f a old new (Err e) left → (left ≡ old → l ≡ o) → r ≡ Err e → Outcome f b o n r l
refused None a b old new left o n l e r h g p = let z = h.0 in let y : ◌≡◌ {A = ℕ} 0 1 = cc in absurd (omega arith)
refused (Some fault) a b old new left o n l e r h g p = (let q = h.0 in cc, g h.1)

-- the answer of an accepted call wrapped
pub wrapped : {A B S : Type 0} (g : A → B) (f : Option BookFault) (a : A) (old new left : S) (r : Result A BookFault) (q : Result B BookFault)
    → q ≡ result_map_both g (λ e. e) r → Outcome f a old new r left → Outcome f (g a) old new q left
wrapped g None a old new left r q e h = (e ∙ ap (result_map_both g (λ x. x)) h.0, h.1)
wrapped g (Some fault) a old new left r q e h = (e ∙ ap (result_map_both g (λ x. x)) h.0, h.1)

pub found : {X : Type 0} (o : Option X) (fault : BookFault) (x : X) → found_or o fault ≡ Ok x → o ≡ Some x
found None fault x e = let z : ◌≡◌ {A = ℕ} 0 1 = cc in absurd (omega arith)
found (Some y) fault x e = cc

pub not_found : {X : Type 0} (o : Option X) (fault other : BookFault) → found_or o fault ≡ Err other → (o ≡ None) × (other ≡ fault)
not_found None fault other e = (refl, cc)
not_found (Some y) fault other e = let z : ◌≡◌ {A = ℕ} 0 1 = cc in absurd (omega arith)

pub identity : {A S : Type 0} (f : Option BookFault) (a : A) (old new left : S) (r : Result A BookFault) → Outcome f a old new r left → is_ok r ≡ false → left ≡ old
identity None a old new left (Ok x) h p = let y : ◌≡◌ {A = ℕ} 0 1 = cc in absurd (omega arith)
identity None a old new left (Err e) h p = let z = h.0 in let y : ◌≡◌ {A = ℕ} 0 1 = cc in absurd (omega arith)
identity (Some fault) a old new left r h p = h.1
