-- The rows of the tables.
use Rattle.std.specs.Prelude.{ℕ, List, [], ◌∷◌, codes}
use Rattle.usb_types.specs.Table.{Entry}

abbrev pub row : ℕ → List ℕ → Entry
row code name = record { code = code; name = name }

-- errnos, after Linux's `errno.h`
unfoldable pub errno_table : List Entry
errno_table =
    row 1 (codes "EPERM") ∷ row 2 (codes "ENOENT") ∷ row 8 (codes "ENOEXEC") ∷ row 11 (codes "EAGAIN") ∷
    row 12 (codes "ENOMEM") ∷ row 16 (codes "EBUSY") ∷ row 19 (codes "ENODEV") ∷ row 22 (codes "EINVAL") ∷
    row 32 (codes "EPIPE") ∷ row 43 (codes "EIDRM") ∷ row 53 (codes "EBADR") ∷ row 71 (codes "EPROTO") ∷
    row 75 (codes "EOVERFLOW") ∷ row 90 (codes "EMSGSIZE") ∷ row 104 (codes "ECONNRESET") ∷
    row 108 (codes "ESHUTDOWN") ∷ row 115 (codes "EINPROGRESS") ∷ row 121 (codes "EREMOTEIO") ∷
    []

-- usages of keys, after the HID usage tables
unfoldable pub usage_table : List Entry
usage_table =
    row 4 (codes "a") ∷ row 5 (codes "b") ∷ row 6 (codes "c") ∷ row 7 (codes "d") ∷ row 8 (codes "e") ∷
    row 9 (codes "f") ∷ row 10 (codes "g") ∷ row 11 (codes "h") ∷ row 12 (codes "i") ∷ row 13 (codes "j") ∷
    row 14 (codes "k") ∷ row 15 (codes "l") ∷ row 16 (codes "m") ∷ row 17 (codes "n") ∷ row 18 (codes "o") ∷
    row 19 (codes "p") ∷ row 20 (codes "q") ∷ row 21 (codes "r") ∷ row 22 (codes "s") ∷ row 23 (codes "t") ∷
    row 24 (codes "u") ∷ row 25 (codes "v") ∷ row 26 (codes "w") ∷ row 27 (codes "x") ∷ row 28 (codes "y") ∷
    row 29 (codes "z") ∷ row 30 (codes "1") ∷ row 31 (codes "2") ∷ row 32 (codes "3") ∷ row 33 (codes "4") ∷
    row 34 (codes "5") ∷ row 35 (codes "6") ∷ row 36 (codes "7") ∷ row 37 (codes "8") ∷ row 38 (codes "9") ∷
    row 39 (codes "0") ∷ row 40 (codes "enter") ∷ row 41 (codes "esc") ∷ row 42 (codes "backspace") ∷
    row 43 (codes "tab") ∷ row 44 (codes "space") ∷ row 57 (codes "capslock") ∷ row 58 (codes "f1") ∷
    row 59 (codes "f2") ∷ row 60 (codes "f3") ∷ row 61 (codes "f4") ∷ row 62 (codes "f5") ∷ row 63 (codes "f6") ∷
    row 64 (codes "f7") ∷ row 65 (codes "f8") ∷ row 66 (codes "f9") ∷ row 67 (codes "f10") ∷ row 68 (codes "f11") ∷
    row 69 (codes "f12") ∷ row 79 (codes "right") ∷ row 80 (codes "left") ∷ row 81 (codes "down") ∷
    row 82 (codes "up") ∷ row 224 (codes "leftctrl") ∷ row 225 (codes "leftshift") ∷ row 226 (codes "leftalt") ∷
    row 227 (codes "leftgui") ∷ row 228 (codes "rightctrl") ∷ row 229 (codes "rightshift") ∷
    row 230 (codes "rightalt") ∷ row 231 (codes "rightgui") ∷
    []

-- standard requests, after USB 2.0
unfoldable pub request_table : List Entry
request_table =
    row 0 (codes "GET_STATUS") ∷ row 1 (codes "CLEAR_FEATURE") ∷ row 3 (codes "SET_FEATURE") ∷
    row 5 (codes "SET_ADDRESS") ∷ row 6 (codes "GET_DESCRIPTOR") ∷ row 7 (codes "SET_DESCRIPTOR") ∷
    row 8 (codes "GET_CONFIGURATION") ∷ row 9 (codes "SET_CONFIGURATION") ∷ row 10 (codes "GET_INTERFACE") ∷
    row 11 (codes "SET_INTERFACE") ∷ row 12 (codes "SYNCH_FRAME") ∷
    []

-- classes of interfaces, after the USB class codes
unfoldable pub class_table : List Entry
class_table =
    row 2 (codes "comm") ∷ row 3 (codes "hid") ∷ row 7 (codes "printer") ∷ row 8 (codes "storage") ∷
    row 9 (codes "hub") ∷ row 10 (codes "cdcdata") ∷ row 255 (codes "vendor") ∷
    []

-- calls of a script
unfoldable pub call_table : List Entry
call_table =
    row 1 (codes "submit") ∷ row 2 (codes "unlink") ∷ row 3 (codes "kill") ∷ row 4 (codes "poison") ∷
    row 5 (codes "unpoison") ∷ row 6 (codes "block") ∷ row 7 (codes "unblock") ∷ row 8 (codes "serve") ∷
    row 9 (codes "add") ∷ row 10 (codes "off") ∷ row 11 (codes "first") ∷ row 12 (codes "killall") ∷
    row 13 (codes "poisonall") ∷ row 14 (codes "unpoisonall") ∷ row 15 (codes "unlinkall") ∷
    row 16 (codes "scuttle") ∷ row 17 (codes "empty") ∷ row 18 (codes "unplug") ∷ row 19 (codes "reset") ∷
    row 20 (codes "unbind") ∷ row 21 (codes "down") ∷ row 22 (codes "up") ∷ row 23 (codes "led") ∷
    row 24 (codes "write") ∷ row 25 (codes "coding") ∷ row 26 (codes "control") ∷ row 27 (codes "sendbreak") ∷
    row 28 (codes "print") ∷ row 29 (codes "status") ∷ row 30 (codes "softreset") ∷
    []
