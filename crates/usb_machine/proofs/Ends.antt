-- What holds of the empty list, and with it of one entry more at the end, holds of every list.
use Rattle.std.proofs.Common.{List, [], ◌∷◌, ◌++◌, sym, subst, append_assoc, append-nil}
use Rattle.usb_machine.specs.declared.entry.Entry.{Entry}

pub by_end : (P : List Entry → Type 0) → P [] → ((m : List Entry) (x : Entry) → P m → P (m ++ x ∷ [])) → (m : List Entry) → P m
by_end P base step m = go [] m base
  where
    go : (m xs : List Entry) → P m → P (m ++ xs)
    go m [] p = subst P (sym (append-nil m)) p
    go m (x ∷ xs) p = subst P (append_assoc m (x ∷ []) xs) (go (m ++ x ∷ []) xs (step m x p))
